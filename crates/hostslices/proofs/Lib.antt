pub mod SixtyCalls
pub mod StepCallLaws
