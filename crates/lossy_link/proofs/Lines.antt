-- What is left in the links of a net, line by line.
use Rattle.std.proofs.Common.{◌≡◌, ℕ, zero, suc, ◌+◌, ◌-◌, ◌<◌, ◌≤◌, List, [], ◌∷◌, ◌++◌, length, get_or, drop, ap, sym, ◌∙◌, append_assoc, append-nil, arith}
use Rattle.std.proofs.lemmas.List.{drop_more, drop_all}
use Rattle.lossy_text.specs.declared.net_line.NetLine.{NetLine}
use Rattle.lossy_text.specs.declared.net_line.NetLine.TheVariants.{Send, Carry}
use Rattle.lossy_link.specs.Link.{LinkState, new_link}
use Rattle.lossy_link.specs.Links.{row_at}
use Rattle.lossy_link.specs.Finish.{packet_lines, link_lines, row_lines, rows_lines}

pub packets-more :
    (from to k end : ℕ) (old mid new : List NetLine) → k < end → mid ≡ old ++ Send from to k ∷ [] → new ≡ mid ++ Carry from to k ∷ []
    → new ++ packet_lines from to (k + 1) (end - (k + 1)) ≡ old ++ packet_lines from to k (end - k)
unfolding packet_lines
packets-more from to k end old mid new below sent carried =
    let n : end - k ≡ suc (end - (k + 1)) = omega arith in
    let rest = packet_lines from to (k + 1) (end - (k + 1)) in
    ap (λ (l : List NetLine). l ++ rest) (carried ∙ ap (λ (l : List NetLine). l ++ Carry from to k ∷ []) sent)
    ∙ append_assoc (old ++ Send from to k ∷ []) (Carry from to k ∷ []) rest ∙ append_assoc old (Send from to k ∷ []) (Carry from to k ∷ rest)
    ∙ ap (λ (j : ℕ). old ++ packet_lines from to k j) (sym n)

pub packets-none : (from to k end : ℕ) (lines : List NetLine) → end ≤ k → lines ++ packet_lines from to k (end - k) ≡ lines
unfolding packet_lines
packets-none from to k end lines past = (let n : end - k ≡ zero = omega arith in ap (λ (j : ℕ). lines ++ packet_lines from to k j) n ∙ append-nil lines)

pub row-more :
    (from to : ℕ) (row : List LinkState) (l : LinkState) (old new : List NetLine) → to < length row → l ≡ get_or row to (new_link 0) → new ≡ old ++ link_lines from to l
    → new ++ row_lines from (to + 1) (drop (to + 1) row) ≡ old ++ row_lines from to (drop to row)
unfolding row_lines
row-more from to row l old new below is put =
    ap (λ (ls : List NetLine). ls ++ row_lines from (to + 1) (drop (to + 1) row)) (put ∙ ap (λ (t : LinkState). old ++ link_lines from to t) is)
    ∙ append_assoc old (link_lines from to (get_or row to (new_link 0))) (row_lines from (to + 1) (drop (to + 1) row))
    ∙ ap (λ (r : List LinkState). old ++ row_lines from to r) (sym (drop_more row to (new_link 0) below))

pub row-none : (from to : ℕ) (row : List LinkState) (lines : List NetLine) → length row ≤ to → lines ++ row_lines from to (drop to row) ≡ lines
unfolding row_lines
row-none from to row lines past = ap (λ (r : List LinkState). lines ++ row_lines from to r) (drop_all to row past) ∙ append-nil lines

pub rows-more :
    (from : ℕ) (rows : List (List LinkState)) (old new : List NetLine) → from < length rows → new ≡ old ++ row_lines from 0 (row_at rows from)
    → new ++ rows_lines (from + 1) (drop (from + 1) rows) ≡ old ++ rows_lines from (drop from rows)
unfolding rows_lines
rows-more from rows old new below put =
    ap (λ (ls : List NetLine). ls ++ rows_lines (from + 1) (drop (from + 1) rows)) put
    ∙ append_assoc old (row_lines from 0 (row_at rows from)) (rows_lines (from + 1) (drop (from + 1) rows))
    ∙ ap (λ (rs : List (List LinkState)). old ++ rows_lines from rs) (sym (drop_more rows from [] below))

pub rows-none : (from : ℕ) (rows : List (List LinkState)) (lines : List NetLine) → length rows ≤ from → lines ++ rows_lines from (drop from rows) ≡ lines
unfolding rows_lines
rows-none from rows lines past = ap (λ (rs : List (List LinkState)). lines ++ rows_lines from rs) (drop_all from rows past) ∙ append-nil lines
