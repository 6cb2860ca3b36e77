-- What is proved of watches in either form.
pub mod Moves
pub mod EveryWatch
pub mod PagesAlike
pub mod TakeByLedger
pub mod Twins
pub mod TwinCalls
pub mod BothForms
