pub mod ActLaws
pub mod RowLaws
pub mod PassLaws
pub mod FocusLaws
pub mod LayerLaws
pub mod StackLaws
pub mod SettleLaws
pub mod PeriodLaws
