-- Putting a crew's jobs over its seats, and taking the seats back.
use Rattle.std.proofs.Common.{◌≡◌, ℕ, ◌+◌, ◌<◌, ◌≤◌, List, [], ◌∷◌, ◌++◌, map, length, refl, ap, sym, ◌∙◌, subst, append_assoc, arith, append-nil}
use Rattle.std.specs.Prelude.{Option, None}
use Rattle.std.specs.List.{AllZip}
use Rattle.std.proofs.Math.ListN.{length-append}
use Rattle.std.proofs.lemmas.List.{map-append, nil_from_length}
use Rattle.copy_workers.specs.declared.feeder_job.FeederJob.{FeederJob}
use Rattle.copy_workers.specs.declared.feeder_job.FeederEnd.{FeederEnd}
use Rattle.race_hall.specs.declared.doer.JobOver.{JobOver}
use Rattle.race_hall.specs.declared.doer.EndOver.{EndOver}
use Rattle.race_hall.specs.Jobs.{feeder_in}
use Rattle.race_hall.specs.Race.{count_from}
use Rattle.race_hall.specs.Crews.{IsPosted, IsTakenBack, last_feeder}
use Rattle.race_hall.proofs.FeederJobs.{front-more, front-left, off-front}
use Rattle.race_hall.proofs.Numbered.{numbered-length, numbered-none, numbered-more}

-- the first n jobs of a crew, over the first seats
pub record Posted {T : Type 0} (feeder : FeederJob) (n : ℕ) (before jobs : List (JobOver T)) (seats left : List T) : Type 0 where
  pub crew : List (JobOver T)
  pub parts : jobs ≡ before ++ crew
  pub seats_are : map (λ job. job.seat) crew ++ left ≡ seats
  pub posted : AllZip (IsPosted feeder) (count_from 0 n) crew
  pub within : n ≤ feeder.copies

module _ {T : Type 0} where
  pub posted-none : (feeder : FeederJob) (jobs : List (JobOver T)) (seats left : List T) → left ≡ seats → Posted feeder 0 jobs jobs seats left
  posted-none feeder jobs seats left same = record { crew = []; parts = sym (append-nil jobs); seats_are = same; posted = numbered-none (IsPosted feeder) [] refl; within = omega arith }

  -- how many seats are left
  pub posted-left : (feeder : FeederJob) (n : ℕ) (before jobs : List (JobOver T)) (seats left : List T) → Posted feeder n before jobs seats left → n + length left ≡ length seats
  posted-left feeder n before jobs seats left p =
      (let a = front-left (λ (job : JobOver T). job.seat) p.crew left seats p.seats_are in let b = numbered-length (IsPosted feeder) 0 n p.crew p.posted in omega arith)

  push-assoc : (before crew jobs now : List (JobOver T)) (job : JobOver T) → jobs ≡ before ++ crew → now ≡ jobs ++ job ∷ [] → now ≡ before ++ (crew ++ job ∷ [])
  push-assoc before crew jobs now job parts pushed = pushed ∙ ap (λ (l : List (JobOver T)). l ++ job ∷ []) parts ∙ append_assoc before crew (job ∷ [])

  pub posted-more : (feeder : FeederJob) (n : ℕ) (before jobs now : List (JobOver T)) (seats left rest : List T) (job : JobOver T)
      → Posted feeder n before jobs seats left → now ≡ jobs ++ job ∷ [] → left ≡ job.seat ∷ rest → IsPosted feeder n job → n < feeder.copies → Posted feeder (n + 1) before now seats rest
  posted-more feeder n before jobs now seats left rest job p pushed off one low = record {
    crew = p.crew ++ job ∷ [];
    parts = push-assoc before p.crew jobs now job p.parts pushed;
    seats_are = front-more (λ (j : JobOver T). j.seat) p.crew (p.crew ++ job ∷ []) left rest seats job p.seats_are off refl;
    posted = numbered-more (IsPosted feeder) n p.crew (p.crew ++ job ∷ []) job p.posted refl one;
    within = omega arith;
  }

  -- the whole crew
  pub posted-whole : (feeder : FeederJob) (n : ℕ) (before jobs now : List (JobOver T)) (seats left rest : List T) (job : JobOver T)
      → Posted feeder n before jobs seats left → now ≡ jobs ++ job ∷ [] → length left ≡ 1 → left ≡ job.seat ∷ rest
      → IsPosted feeder n job → n ≡ feeder.copies
      → (crew : List (JobOver T)) × (now ≡ before ++ crew) × (map (λ j. j.seat) crew ≡ seats) × AllZip (IsPosted feeder) (count_from 0 (feeder.copies + 1)) crew
  posted-whole feeder n before jobs now seats left rest job p pushed one_left off one last =
      let front = front-more (λ (j : JobOver T). j.seat) p.crew (p.crew ++ job ∷ []) left rest seats job p.seats_are off refl in
      let none = nil_from_length rest (let a = ap (λ (l : List T). length l) off in omega arith) in (
        p.crew ++ job ∷ [],
        push-assoc before p.crew jobs now job p.parts pushed,
        sym (append-nil (map (λ j. j.seat) (p.crew ++ job ∷ []))) ∙ ap (λ (l : List T). map (λ j. j.seat) (p.crew ++ job ∷ []) ++ l) (sym none) ∙ front,
        subst (λ (k : ℕ). AllZip (IsPosted feeder) (count_from 0 (k + 1)) (p.crew ++ job ∷ [])) last (numbered-more (IsPosted feeder) n p.crew (p.crew ++ job ∷ []) job p.posted refl one),
      )

  -- taking back
  pub last-of-push : (gone : List (EndOver T)) (e : EndOver T) → last_feeder (gone ++ e ∷ []) ≡ feeder_in e.end
  unfolding last_feeder
  last-of-push [] e = refl
  last-of-push (f ∷ []) e = refl
  last-of-push (f ∷ g ∷ gone) e = last-of-push (g ∷ gone) e

  pub taken-none : (ends : List (EndOver T)) (seats : List T) → seats ≡ [] → IsTakenBack 0 ends ends seats None
  unfolding last_feeder
  taken-none ends seats none = record { gone = []; parts = refl; count_is = refl; seats_are = none; given_is = refl }

  pub taken-left : (n : ℕ) (before left : List (EndOver T)) (seats : List T) (given : Option FeederEnd) → IsTakenBack n before left seats given → n + length left ≡ length before
  taken-left n before left seats given t = (let a = ap (λ (l : List (EndOver T)). length l) t.parts in let b = length-append t.gone left in let d = t.count_is in omega arith)

  pub taken-more : (n : ℕ) (before left rest : List (EndOver T)) (seats now : List T) (given : Option FeederEnd) (e : EndOver T)
      → IsTakenBack n before left seats given → left ≡ e ∷ rest → now ≡ seats ++ e.seat ∷ [] → IsTakenBack (n + 1) before rest now (feeder_in e.end)
  taken-more n before left rest seats now given e t off pushed = record {
    gone = t.gone ++ e ∷ [];
    parts = sym (off-front t.gone left rest before e (sym t.parts) off);
    count_is = (let a = length-append t.gone (e ∷ []) in let b = t.count_is in omega arith);
    seats_are = pushed ∙ ap (λ (l : List T). l ++ e.seat ∷ []) t.seats_are ∙ sym (map-append (λ (x : EndOver T). x.seat) t.gone (e ∷ []));
    given_is = sym (last-of-push t.gone e);
  }
