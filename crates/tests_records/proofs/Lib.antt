pub mod SetCalls
