pub mod RunLaws
pub mod StepRunLaws
