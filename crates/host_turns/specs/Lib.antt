pub mod HostTurns
