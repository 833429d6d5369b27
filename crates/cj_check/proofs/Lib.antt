pub mod Checked
pub mod CrontabLines
pub mod CrontabWords
pub mod ItemAnswers
pub mod ItemData
pub mod Scenes
pub mod SeenItems
