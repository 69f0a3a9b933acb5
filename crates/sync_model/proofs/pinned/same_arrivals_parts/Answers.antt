use Rattle.sync_model.proofs.pinned.same_arrivals_parts.Goals as goal

pub returns : goal.returns
returns g c = record {
  parts = λ s t. (
    λ h. (h.accepted, h.turned, h.plan, h.spare, h.plan_spare),
    λ h. record { accepted = h.0; turned = h.1; plan = h.2; spare = h.3; plan_spare = h.4 },
  );
}
