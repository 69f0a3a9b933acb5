use Rattle.std.proofs.Common.{◌≡◌, ℕ, List, [], ◌∷◌, ◌++◌, codes, append_assoc}
use Rattle.tss_io.specs.Lines.{as_line, spaced}
use Rattle.report_text.specs.Ends.{refused_text}
use Rattle.report_text.proofs.ends.refusal_text.Goals as goal

parts : (line number word : List ℕ)
    → (((((([] ++ codes "refused line ") ++ line) ++ codes " cause ") ++ number) ++ codes " ") ++ word) ++ codes "\n"
    ≡ as_line (spaced (codes "refused" ∷ codes "line" ∷ line ∷ codes "cause" ∷ number ∷ word ∷ []))
unfolding spaced
parts line number word = simp append_assoc

pub returns : goal.returns
unfolding refused_text
returns c =
    rw (
      c.push_str-7.ensures.bytes,
      c.push_str-6.ensures.bytes,
      c.push_str-5.ensures.bytes,
      c.push_str-4.ensures.bytes,
      c.push_str-3.ensures.bytes,
      c.push_str-2.ensures.bytes,
      c.push_str.ensures.bytes,
      c.new-line.ensures,
      c.format.ensures.text,
      c.format-2.ensures.text,
      c.number.ensures,
      c.word.ensures,
    )
    (parts _ _ _)
