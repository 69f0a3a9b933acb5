mod LiftLaws
pub mod Plans
