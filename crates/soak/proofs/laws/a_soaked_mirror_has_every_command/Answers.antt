use Rattle.soak.proofs.laws.a_soaked_mirror_has_every_command.Goals as goal

pub returns : goal.returns
returns g c = λ opening seed end h. (h.opened, h.accepted, h.turned, h.drained, h.worlds)
