pub mod Sets
