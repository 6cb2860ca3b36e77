-- What the proofs of the functions cite: one test or one turn of a loop at a time.
mod StoreSteps
mod CountSteps
mod RowSteps
mod PageSteps
