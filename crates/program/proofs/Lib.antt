-- What the proofs of the functions cite: one test or one turn of a loop at a time.
mod SplitSteps
mod KeptRule
mod StageSteps
mod TurnSteps
