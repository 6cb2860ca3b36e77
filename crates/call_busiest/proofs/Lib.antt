-- What the proofs of the functions cite: one test or one turn of a loop at a time.
mod KeptSteps
mod EventSteps
mod DaySteps
