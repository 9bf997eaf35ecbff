pub mod StrikeFrom
pub mod Service
pub mod SentAgain
