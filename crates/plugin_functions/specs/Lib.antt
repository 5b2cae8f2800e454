pub mod HostFunctions
