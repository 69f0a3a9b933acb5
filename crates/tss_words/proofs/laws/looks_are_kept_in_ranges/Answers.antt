use Rattle.tss_words.proofs.laws.looks_are_kept_in_ranges.Goals as goal

pub returns : goal.returns
returns c = λ every room ticks is. (is.0.some_ticks, is.0.few_ticks, is.0.some_room, is.0.little_room, is.1.some, is.1.few, is.1.within)
