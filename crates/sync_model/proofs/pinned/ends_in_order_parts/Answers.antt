use Rattle.sync_model.proofs.pinned.ends_in_order_parts.Goals as goal

pub returns : goal.returns
returns g c = record {
  parts = λ s. (λ h. (h.drained, h.arrivals, h.in_order), λ h. record { drained = h.0; arrivals = h.1; in_order = h.2 });
}
