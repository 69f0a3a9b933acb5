use Rattle.live_mirror.proofs.Made.{staggered-on_way, requests-keep}
use Rattle.live_mirror.proofs.laws.every_state_is_staggered.Goals as goal

pub returns-clause-on_the_way : goal.returns-clause-on_the_way
returns-clause-on_the_way g c = λ s r es n is fits makes. staggered-on_way s r es n is fits makes

pub returns-clause-behind : goal.returns-clause-behind
returns-clause-behind g c = λ s rs is fits. requests-keep rs s is fits
