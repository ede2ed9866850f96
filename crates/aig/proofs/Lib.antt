pub mod FirstVertexLaws
pub mod FoldLaws
pub mod IndexLaws
pub mod LiteralLaws
pub mod OwnLaws
pub mod PairsLaws
pub mod TruthLaws
pub mod ValuesLaws
