pub mod SignedLaws
pub mod LogLaws
pub mod RowLaws
pub mod PlanLaws
pub mod ToldLaws
