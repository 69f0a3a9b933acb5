use Rattle.tss_mirror.proofs.ApartLaws.{complete, refused, not-heard, not-told, forgotten}
use Rattle.tss_mirror.proofs.laws.a_match_is_answered.Goals as goal

pub returns-clause-complete : goal.returns-clause-complete
returns-clause-complete g c = λ number old new ends. complete _ _ _ _ _ old new ends

pub returns-clause-refused : goal.returns-clause-refused
returns-clause-refused g c = λ number old new ends. refused _ _ _ _ _ old new ends

pub returns-clause-unheard : goal.returns-clause-unheard
returns-clause-unheard g c = λ number old new ends. not-heard _ _ _ _ _ old new ends

pub returns-clause-untold : goal.returns-clause-untold
returns-clause-untold g c = λ number old new ends. not-told _ _ _ _ _ old new ends

pub returns-clause-no_memory : goal.returns-clause-no_memory
returns-clause-no_memory g c = λ number old new ends. forgotten _ _ _ _ _ old new ends
