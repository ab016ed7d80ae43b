pub mod EndSteps
