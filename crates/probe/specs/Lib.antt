pub mod Probes
