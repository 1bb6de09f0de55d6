pub mod SheetLaws
pub mod HoldLaws
pub mod RoundLaws
pub mod FrontLaws
pub mod TableLaws
pub mod HeldTaskLaws
