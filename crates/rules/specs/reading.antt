-- What the reader answers: forward, within its limits, and exactly the texts of forms.
pub mod TextLaws
pub mod WordLaws
pub mod ForwardLaws
pub mod ReaderLaws
pub mod PlaceLaws
pub mod WordsAnswered
pub mod FormsAnswered
pub mod ReaderAccepts
pub mod ReaderExamples
