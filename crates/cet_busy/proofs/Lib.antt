pub mod HolderLaws
