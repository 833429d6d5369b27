pub mod BlockStyle
pub mod Cursors
pub mod Escapes
pub mod OnLines
pub mod Places
pub mod ReadOf
pub mod ReadsBack
pub mod Words
