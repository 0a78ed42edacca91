pub mod EventLemmas
pub mod RunSteps
pub mod BatchSteps
pub mod ViewLemmas
