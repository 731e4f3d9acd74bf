pub mod LinesGrow
pub mod CountSteps
pub mod Listed
