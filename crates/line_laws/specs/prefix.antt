-- A long line's answer is that of its first bytes.
pub mod LongNumbers
pub mod PrefixDecides
pub mod LinePrefixDecides
