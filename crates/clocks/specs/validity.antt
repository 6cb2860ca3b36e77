-- What is proved of rules for valid clocks, and of the join.
pub mod ClockRule
pub mod KnownClock
pub mod Exchange
pub mod JoinLaws
pub mod JoinedClock
pub mod JoinedTest
