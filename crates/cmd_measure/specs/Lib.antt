pub mod Measured
pub mod MeasureLaws
pub mod MeasureCommand
pub mod Working
pub mod Feeder
