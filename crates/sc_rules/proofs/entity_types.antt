pub mod ConformanceLemmas
pub mod Results
pub mod Arguments
