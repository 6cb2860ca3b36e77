-- The lines laid down for a form: how many, good, and what they mean.
pub mod Raised
pub mod LineLaws
pub mod RuleTableLaws
pub mod LinesMean
