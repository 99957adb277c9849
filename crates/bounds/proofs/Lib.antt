pub mod GatherLaws
pub mod SumLaws
pub mod RoleBoundLaws
pub mod AxisBoundLaws
pub mod SpanBoundLaws
pub mod PairBoundLaws
