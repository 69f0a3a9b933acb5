-- The links of a net as each line changes one of them.
use Rattle.std.proofs.Common.{◌≡◌, ℕ, ◌<◌, false, cond, List, [], ◌∷◌, ◌++◌, length, get_or, set, Some, Contains, refl, ap, sym, ◌∙◌, subst, arith}
use Rattle.std.specs.List.{AllByRecursion}
use Rattle.std.proofs.lemmas.List.{get_or_default}
use Rattle.game_trait.specs.declared.command.Command.{Command}
use Rattle.game_trait.specs.CommandList.{command_named, has_command}
use Rattle.match_data.specs.Data.{MatchData}
use Rattle.match_hall.specs.Script.{changed_at}
use Rattle.lossy_text.specs.declared.net_line.NetLine.TheVariants.{Issue, Send, Carry, Hear}
use Rattle.lossy_link.specs.declared.link.Carried.{Carried}
use Rattle.lossy_link.specs.declared.link.Carried.TheVariants as carried
use Rattle.lossy_link.specs.Ends.{is_open}
use Rattle.lossy_link.specs.Link.{LinkState, new_link, has_flown, brought}
use Rattle.lossy_link.specs.Carried.{IsCarried}
use Rattle.lossy_link.specs.Links.{NetLinks, AreLinks, row_at, link_at, row_issued, changed, next_links, script_of, note_text, arriving, carry_text, nothing_line}
use Rattle.lossy_link.specs.Outcome.{script_in, note_in, outcome_of}
use Rattle.lossy_link.proofs.Places.{IsPlace}
use Rattle.lossy_link.proofs.LinksLaws.{issue-room}
use Rattle.lossy_link.proofs.NetLaws.{told-link}
use Rattle.lossy_link.proofs.RowLaws.{row-set, all-numbered}

-- the row that was read
pub row-is :
    (rows items : List (List LinkState)) (from at : ℕ) (row : List LinkState) → at ≡ from → items ≡ rows → from < length rows → row ≡ get_or items at row → row ≡ row_at rows from
row-is rows items from at row same view there is =
    is ∙ ap (λ (n : ℕ). get_or items n row) same ∙ ap (λ (rs : List (List LinkState)). get_or rs from row) view ∙ get_or_default rows from row [] there

-- a row as it was read of a net that is looked at from inside, and the net once a link of that row was changed
pub row-inside :
    (n k : NetLinks) (from at : ℕ) (row : List LinkState) → k ≡ n → at ≡ from → from < length n.rows → row ≡ get_or k.rows at row → row ≡ row_at n.rows from
row-inside n k from at row same is there read = row-is n.rows k.rows from at row is (ap (λ (s : NetLinks). s.rows) same) there read

pub link-changed :
    (f : LinkState → LinkState) (n k : NetLinks) (from to at : ℕ) (row new : List LinkState) → k ≡ n → at ≡ from → from < length n.rows → row ≡ get_or k.rows at row
    → new ≡ changed_at f to row → record k { rows = set k.rows at new } ≡ record n { rows = changed f from to n.rows }
link-changed f n k from to at row new same is there read made =
    ap (λ (rows : List (List LinkState)). record k { rows = rows })
    (row-set (λ r. changed_at f to r) k.rows k.rows from at row new is refl (subst (λ (s : NetLinks). from < length s.rows) (sym same) there) read made)
    ∙ ap (λ (s : NetLinks). record s { rows = changed f from to s.rows }) same

-- ---- what is printed of a line that changes something or not

pub send-note :
    (n : NetLinks) (from to k : ℕ) (row : List LinkState) → IsPlace n.rows from to → row ≡ row_at n.rows from
    → cond (is_open (get_or row to (new_link 0)).acked (get_or row to (new_link 0)).sent k) [] nothing_line ≡ note_text n (Send from to k)
unfolding note_text
send-note n from to k row there is =
    ap (λ (r : List LinkState). cond (is_open (get_or r to (new_link 0)).acked (get_or r to (new_link 0)).sent k) [] nothing_line) is
    ∙ sym (told-link (λ l. cond (is_open l.acked l.sent k) [] nothing_line) from to n.rows there)

pub hear-note :
    (n : NetLinks) (from to k : ℕ) (row : List LinkState) → IsPlace n.rows from to → row ≡ row_at n.rows from
    → cond (has_flown (get_or row to (new_link 0)).counts k) [] nothing_line ≡ note_text n (Hear from to k)
unfolding note_text
hear-note n from to k row there is =
    ap (λ (r : List LinkState). cond (has_flown (get_or r to (new_link 0)).counts k) [] nothing_line) is
    ∙ sym (told-link (λ l. cond (has_flown l.counts k) [] nothing_line) from to n.rows there)

-- ---- what comes of a packet

carried-script : (from to k : ℕ) (l : LinkState) (r : Carried) → IsCarried k l r → script_in (outcome_of from to k r) ≡ arriving to (brought k l)
unfolding brought
carried-script from to k l carried.Nothing h = rw h refl
carried-script from to k l carried.Dropped h = rw (h.0, h.1) refl
carried-script from to k l (carried.Brought x) h = rw (h.0, h.1, h.2) refl

carried-note : (from to k : ℕ) (l : LinkState) (r : Carried) → IsCarried k l r → note_in (outcome_of from to k r) ≡ carry_text from to k l
carried-note from to k l carried.Nothing h = rw h refl
carried-note from to k l carried.Dropped h = rw (h.0, h.1) refl
carried-note from to k l (carried.Brought x) h = rw (h.0, h.1) refl

pub carry-script :
    (commands : List Command) (n : NetLinks) (from to k : ℕ) (row : List LinkState) (r : Carried) → IsPlace n.rows from to → row ≡ row_at n.rows from
    → IsCarried k (get_or row to (new_link 0)) r → script_in (outcome_of from to k r) ≡ script_of commands n (Carry from to k)
unfolding script_of
carry-script commands n from to k row r there is h =
    carried-script from to k (link_at n.rows from to) r (subst (λ (ls : List LinkState). IsCarried k (get_or ls to (new_link 0)) r) is h)
    ∙ ap (λ (xs : List Command). arriving to xs) (sym (told-link (brought k) from to n.rows there))

pub carry-note :
    (n : NetLinks) (from to k : ℕ) (row : List LinkState) (r : Carried) → IsPlace n.rows from to → row ≡ row_at n.rows from
    → IsCarried k (get_or row to (new_link 0)) r → note_in (outcome_of from to k r) ≡ note_text n (Carry from to k)
unfolding note_text
carry-note n from to k row r there is h =
    carried-note from to k (link_at n.rows from to) r (subst (λ (ls : List LinkState). IsCarried k (get_or ls to (new_link 0)) r) is h)
    ∙ sym (told-link (carry_text from to k) from to n.rows there)

-- ---- a command is issued

pub issue-step :
    (commands : List Command) (n : NetLinks) (from number : ℕ) (x : Command) → has_command n.issued from number ≡ false → command_named commands from number ≡ Some x
    → next_links commands n (Issue from number) ≡ record n { issued = n.issued ++ x ∷ []; rows = changed_at (row_issued x from) from n.rows }
unfolding next_links
issue-step commands n from number x new is = rw (new, is) refl

pub row-room :
    (m : MatchData) (n : NetLinks) (x : Command) (from : ℕ) (row : List LinkState) → AreLinks m n → from < m.mirrors → x.from ≡ from → Contains m.commands x
    → has_command n.issued x.from x.number ≡ false → row ≡ row_at n.rows from → AllByRecursion (λ l. length l.sent < l.room) row
row-room m n x from row h a own there new is =
    subst (λ (ls : List LinkState). AllByRecursion (λ l. length l.sent < l.room) ls) (sym is)
    (all-numbered (λ l. length l.sent < l.room) (row_at n.rows from) (new_link 0)
    (λ to below. (issue-room m n x from to h a (let row = h.row from a in omega arith) own there new).0))
