pub mod Flake
