pub mod CodeFiles
