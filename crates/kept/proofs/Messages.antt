-- An exit message is bytes.
use Rattle.std.specs.Prelude.{if◌then◌else◌, Bool, List, [], ◌++◌, ℕ}
use Rattle.std.proofs.Common.{arith}
use Rattle.machine.specs.Basics.{is_empty, ascii}
use Rattle.machine.specs.Message.{decimal, up_to_zero, cut, message}
use Rattle.machine.specs.Good.{Each, Byte}
use Rattle.lists.specs.Lists.{either, each_append}
use Rattle.kept.specs.Messages.{digit-bytes, name-bytes, cut-bytes}

-- A message is bytes, where the name and the status are.
pub message_bytes_lem : (name : List ℕ) (pid : ℕ) (status : List ℕ) → Each Byte name → Each Byte status → Each Byte (message name pid status)
unfolding message decimal ascii
message_bytes_lem name pid status n s =
    let all : List ℕ = up_to_zero name ++ ascii " " ++ decimal pid ++ ascii ": " ++ status in
    either (λ (b : Bool). Each Byte (if b then [] else cut all)) (is_empty status) tt
    (cut-bytes all
    (each_append Byte (up_to_zero name ++ ascii " " ++ decimal pid ++ ascii ": ") status
    (each_append Byte (up_to_zero name ++ ascii " " ++ decimal pid) (ascii ": ")
    (each_append Byte (up_to_zero name ++ ascii " ") (decimal pid) (each_append Byte (up_to_zero name) (ascii " ") (name-bytes name n) (omega arith, tt)) (digit-bytes pid pid (omega arith)))
    (omega arith, (omega arith, tt)))
    s))
