-- What printing a record appends.
use Rattle.std.proofs.Common.{◌≡◌, ℕ, ◌+◌, ◌<◌, List, [], ◌∷◌, ◌++◌, length, take, sym, ap, ◌∙◌, append_assoc, append-nil, get_or, arith}
use Rattle.std.proofs.lemmas.Grind.{flat_map-append, take_at_read}
use Rattle.match_data.specs.declared.log.MirrorLog.{MirrorLog}
use Rattle.report_text.specs.Logs.{log_text}
use Rattle.run_recorder.specs.Text.{blocks_text, record_mirrors_text}

pub blocks_none : (old : List ℕ) → old ≡ old ++ blocks_text []
unfolding blocks_text
blocks_none old = sym (append-nil old)

pub blocks_text-append : (xs ys : List (List ℕ)) → blocks_text (xs ++ ys) ≡ blocks_text xs ++ blocks_text ys
unfolding blocks_text
blocks_text-append xs ys = flat_map-append (λ block. block) xs ys

pub one_block : (block : List ℕ) → blocks_text (block ∷ []) ≡ block
unfolding blocks_text
one_block block = append-nil block

-- the next block
pub blocks_next : (xs : List (List ℕ)) (i : ℕ) (d : List ℕ) (old mid new : List ℕ) → i < length xs → mid ≡ old
    ++ blocks_text (take i xs) → new ≡ mid ++ get_or xs i d → new ≡ old ++ blocks_text (take (i + 1) xs)
blocks_next xs i d old mid new within so_far next =
    next ∙ rw (so_far, (take_at_read xs i d within).1, blocks_text-append, one_block (get_or xs i d)) (append_assoc old _ _)

-- one mirror more
pub mirrors_text-append : (logs : List MirrorLog) (worlds : List (List (List ℕ))) (log : MirrorLog) (blocks : List (List ℕ)) → length worlds ≡ length logs
    → record_mirrors_text (logs ++ log ∷ []) (worlds ++ blocks ∷ []) ≡ record_mirrors_text logs worlds ++ (log_text log.mirror (length log.events) log.events ++ blocks_text blocks)
unfolding record_mirrors_text
mirrors_text-append [] [] log blocks same = append-nil (log_text log.mirror (length log.events) log.events ++ blocks_text blocks)
mirrors_text-append [] (ws ∷ worlds) log blocks same = absurd (omega arith)
mirrors_text-append (l ∷ logs) [] log blocks same = absurd (omega arith)
mirrors_text-append (l ∷ logs) (ws ∷ worlds) log blocks same =
    ap (λ (t : List ℕ). (log_text l.mirror (length l.events) l.events ++ blocks_text ws) ++ t) (mirrors_text-append logs worlds log blocks (omega arith))
    ∙ sym (append_assoc (log_text l.mirror (length l.events) l.events ++ blocks_text ws) _ _)

-- the mirrors from this one on
pub mirrors_on : (logs more : List MirrorLog) (worlds others : List (List (List ℕ))) (log : MirrorLog) (blocks : List (List ℕ)) (old new all : List ℕ) → logs ≡ log ∷ more → worlds ≡ blocks ∷ others
    → new ≡ old ++ (log_text log.mirror (length log.events) log.events ++ blocks_text blocks) → old ++ record_mirrors_text logs worlds ≡ all → new ++ record_mirrors_text more others ≡ all
unfolding record_mirrors_text
mirrors_on logs more worlds others log blocks old new all some stated put so_far =
    rw put (append_assoc old (log_text log.mirror (length log.events) log.events ++ blocks_text blocks) (record_mirrors_text more others)) ∙ rw (some, stated) at so_far

pub mirrors_end : (logs : List MirrorLog) (worlds : List (List (List ℕ))) (old all : List ℕ) → length logs ≡ 0 → old ++ record_mirrors_text logs worlds ≡ all → old ≡ all
unfolding record_mirrors_text
mirrors_end [] worlds old all none so_far = sym (append-nil old) ∙ so_far
mirrors_end (log ∷ logs) worlds old all none so_far = absurd (omega arith)

pub worlds_end : (logs more : List MirrorLog) (worlds : List (List (List ℕ))) (log : MirrorLog) (old all : List ℕ)
    → logs ≡ log ∷ more → length worlds ≡ 0 → old ++ record_mirrors_text logs worlds ≡ all → old ≡ all
unfolding record_mirrors_text
worlds_end logs more [] log old all some none so_far = sym (append-nil old) ∙ rw some at so_far
worlds_end logs more (blocks ∷ worlds) log old all some none so_far = absurd (omega arith)
