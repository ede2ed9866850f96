pub mod CardFile
