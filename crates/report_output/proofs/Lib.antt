pub mod ComparedLaws
