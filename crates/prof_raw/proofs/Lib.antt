pub mod PushLemmas
pub mod FirstRowLemmas
pub mod DeltaLemmas
pub mod SumLemmas
pub mod ColumnLemmas
pub mod CheckLemmas
pub mod TextLemmas
