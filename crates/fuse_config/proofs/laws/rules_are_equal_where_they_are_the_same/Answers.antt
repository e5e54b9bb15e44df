-- Lists of options are equal where the options are.
use Rattle.std.proofs.Common.{◌≡◌, List, rules}
use Rattle.std.specs.Bool.{Decides}
use Rattle.std.specs.Cmp.Lexicographic.{pointwise, pointwise_decides}
use Rattle.fuse_config.specs.declared.mount_option.MountOption.{MountOption}
use Rattle.fuse_config.specs.contracts.mount_option.MountOptionPartialEq.TheImpl.{eq-value}
use Rattle.fuse_config.proofs.laws.rules_are_equal_where_they_are_the_same.Goals as goal

pub returns-clause-configurations : goal.returns-clause-configurations
returns-clause-configurations c =
    let one : (x y : MountOption) → Decides (eq-value.it x y) (x ≡ y) = λ x y. search rules in
    let options : (xs ys : List MountOption) → Decides (pointwise eq-value.it xs ys) (xs ≡ ys) = pointwise_decides one in
    record { same = λ x y. search (rules, options) }
