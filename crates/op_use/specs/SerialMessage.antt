-- Messages as bytes, with the address that they came from or go to.
use Rattle.std.specs.Prelude.{ℕ, List}
use Rattle.std.specs.declared.net.SocketAddr.{SocketAddr}

-- the bytes of a message and an address
pub record SerialValue : Type 0 where
  pub bytes : List ℕ
  pub addr : SocketAddr
