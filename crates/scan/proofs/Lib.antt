pub mod WantLaws
pub mod WroteLaws
pub mod AppendedLaws
pub mod ScanLaws
pub mod RangeLaws
pub mod SideLaws
pub mod TreeContextLaws
