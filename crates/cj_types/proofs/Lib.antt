pub mod Subdomains
pub mod LabelEnds
pub mod LabelPlaces
pub mod MadeNames
pub mod UidTexts
pub mod UidDigits
pub mod HexWrites
