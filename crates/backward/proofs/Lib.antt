pub mod BackwardLaws
