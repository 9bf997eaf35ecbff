pub mod StrikingFrom
pub mod Serving
pub mod SentAgain
