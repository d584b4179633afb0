-- No second answer satisfies a promise of an export, and no second contents of what is lent to be written.
-- Document 01, "Strength of the promises".
use Prim.Native.Nat.{ℕ}
use mathlib.Core.List.{List}
use Rattle.abi.proofs.Unique as abi
use Rattle.ranges.specs.Promises.{Determines, DeterminesAll}
use Rattle.abi_c.proofs.ngozilade_read.Kinds as read-kinds
use Rattle.abi_c.proofs.ngozilade_read.Reads as read
use Rattle.abi_c.proofs.ngozilade_check.Kinds as check-kinds
use Rattle.abi_c.proofs.ngozilade_check.Reads as check
use Rattle.abi_c.proofs.ngozilade_bind.Kinds as bind-kinds
use Rattle.abi_c.proofs.ngozilade_bind.Reads as bind
use Rattle.abi_c.proofs.ngozilade_run_block.Kinds as run-block-kinds
use Rattle.abi_c.proofs.ngozilade_run_block.Reads as run-block
use Rattle.abi_c.proofs.ngozilade_run_datapath.Kinds as run-datapath-kinds
use Rattle.abi_c.proofs.ngozilade_run_datapath.Reads as run-datapath

pub ngozilade-read-unique : Determines 1 read-kinds.ps read-kinds.r read.Post
ngozilade-read-unique = abi.ngozilade-read-unique

pub ngozilade-check-unique : Determines 2 check-kinds.ps check-kinds.r check.Post
ngozilade-check-unique = abi.ngozilade-check-unique

pub ngozilade-bind-unique : DeterminesAll 2 bind-kinds.ps bind-kinds.r bind.Post (List ℕ) (λ κs s. s.1.1.0.now)
ngozilade-bind-unique = abi.ngozilade-bind-unique

pub ngozilade-run-block-unique : DeterminesAll 3 run-block-kinds.ps run-block-kinds.r run-block.Post (List ℕ) (λ κs s. s.1.1.0.now)
ngozilade-run-block-unique = abi.ngozilade-run-block-unique

pub ngozilade-run-datapath-unique : DeterminesAll 5 run-datapath-kinds.ps run-datapath-kinds.r run-datapath.Post (List ℕ × List ℕ) (λ κs s. (s.1.1.1.0.now, s.1.1.1.1.0.now))
ngozilade-run-datapath-unique = abi.ngozilade-run-datapath-unique
