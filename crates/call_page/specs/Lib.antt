-- A page.

-- What a reader has to believe
pub mod Page
pub mod PageExact
-- What is proved
pub mod RowLaws
pub mod ColumnLaws
pub mod PlaceLaws
pub mod PageTheorem
-- What its functions' contracts cite
pub mod PageCode
