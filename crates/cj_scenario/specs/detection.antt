pub mod Forms
pub mod Fractions
pub mod Detections
