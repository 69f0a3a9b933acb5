-- A watcher among others, by its place, and what the list is once it is told or let go.
use Rattle.std.proofs.Common.{◌≡◌, ℕ, List, [], ◌∷◌, ◌++◌, map, length, get_or, set, sym, ap, ◌∙◌, append_assoc}
use Rattle.std.specs.Prelude.{Result, Ok, Err, OnErr}
use Rattle.std.specs.List.{remove}
use Rattle.game_trait.specs.declared.event.Note.{Note}
use Rattle.tss_io.specs.Lines.{as_line}
use Rattle.watch_board.specs.Behaviour.{Behaviour, told}

-- a line that is appended in two parts
pub line-appended : (before between after line : List ℕ) → between ≡ before ++ line → after ≡ between ++ 10 ∷ [] → after ≡ before ++ as_line line
line-appended before between after line first second =
    second ∙ (ap (λ bytes. bytes ++ 10 ∷ []) first ∙ append_assoc before line (10 ∷ []))

-- the behaviour of a watcher that was told, told by its answers and lines
pub told-by_parts : (note : Note) (old new : Behaviour)
    → ((earlier : List Note) (later : Note) → new.answer earlier later ≡ old.answer (note ∷ earlier) later)
    → ((earlier : List Note) → new.line earlier ≡ old.line (note ∷ earlier))
    → new ≡ told note old
told-by_parts note old new answers lines =
    λ i. record { answer = λ earlier later. answers earlier later i; line = λ earlier. lines earlier i }

-- the watcher that stands behind a front
seen-at : {B : Type 0} → (see : B → Behaviour) (items : List B) (front behind : List Behaviour) (one : Behaviour) (x : B)
    → map see items ≡ front ++ one ∷ behind → x ≡ get_or items (length front) x → see x ≡ one
seen-at see [] [] behind one x e h = cc
seen-at see [] (f ∷ front) behind one x e h = cc
seen-at see (y ∷ items) [] behind one x e h = ap see h ∙ cc
seen-at see (y ∷ items) (f ∷ front) behind one x e h =
    let t : map see items ≡ front ++ one ∷ behind = cc in seen-at see items front behind one x t h

-- another in its place
set-at : {B : Type 0} → (see : B → Behaviour) (items : List B) (front behind : List Behaviour) (one : Behaviour) (x : B)
    → map see items ≡ front ++ one ∷ behind → map see (set items (length front) x) ≡ front ++ see x ∷ behind
set-at see [] [] behind one x e = cc
set-at see [] (f ∷ front) behind one x e = cc
set-at see (y ∷ items) [] behind one x e = let t : map see items ≡ behind = cc in ap (λ ys. see x ∷ ys) t
set-at see (y ∷ items) (f ∷ front) behind one x e =
    let t : map see items ≡ front ++ one ∷ behind = cc in
    let h : see y ≡ f = cc in
    let r = set-at see items front behind one x t in cc

-- the others without it
remove-at : {B : Type 0} → (see : B → Behaviour) (items : List B) (front behind : List Behaviour) (one : Behaviour)
    → map see items ≡ front ++ one ∷ behind → map see (remove items (length front)) ≡ front ++ behind
remove-at see [] [] behind one e = cc
remove-at see [] (f ∷ front) behind one e = cc
remove-at see (y ∷ items) [] behind one e = cc
remove-at see (y ∷ items) (f ∷ front) behind one e =
    let t : map see items ≡ front ++ one ∷ behind = cc in
    let h : see y ≡ f = cc in
    let r = remove-at see items front behind one t in cc

-- the watcher in a place
pub seen-in_place : {B : Type 0} → (see : B → Behaviour) (items : List B) (place : ℕ) (x : B)
    → x ≡ get_or items place x
    → (front behind : List Behaviour) (one : Behaviour) → map see items ≡ front ++ one ∷ behind → length front ≡ place → see x ≡ one
seen-in_place see items place x h front behind one e p =
    seen-at see items front behind one x e (h ∙ ap (λ n. get_or items n x) (sym p))

-- the watchers once another is in this place
pub set-in_place : {B : Type 0} → (see : B → Behaviour) (items : List B) (place : ℕ) (x : B) (new : Behaviour)
    → see x ≡ new
    → (front behind : List Behaviour) (one : Behaviour) → map see items ≡ front ++ one ∷ behind → length front ≡ place
    → map see (set items place x) ≡ front ++ new ∷ behind
set-in_place see items place x new h front behind one e p =
    ap (λ n. map see (set items n x)) (sym p) ∙ (set-at see items front behind one x e ∙ ap (λ w. front ++ w ∷ behind) h)

-- the watchers without the one in this place
pub removed-in_place : {B : Type 0} → (see : B → Behaviour) (items left : List B) (place : ℕ) → left ≡ remove items place
    → (front behind : List Behaviour) (one : Behaviour) → map see items ≡ front ++ one ∷ behind → length front ≡ place
    → map see left ≡ front ++ behind
removed-in_place see items left place l front behind one e p =
    ap (map see) l ∙ (ap (λ n. map see (remove items n)) (sym p) ∙ remove-at see items front behind one e)

-- what holds anyhow holds where a call failed
pub on_err-since : {T E : Type 0} → (r : Result T E) (P : Type 0) → P → OnErr r P
on_err-since (Ok x) P h = tt
on_err-since (Err e) P h = h
