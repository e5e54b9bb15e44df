-- One cause alone refuses a session's options.
use Rattle.std.proofs.Common.{◌≡◌, ◌↔◌, ℕ, List, [], Some, None, true, false, Err, inl, inr, refl, ap, subst, ◌∙◌}
use Rattle.std.specs.List.{list_any, slice_get}
use Rattle.fuse_config.specs.declared.config.Config.{Config}
use Rattle.fuse_config.specs.declared.mount_option.MountOption.{MountOption}
use Rattle.fuse_config.proofs.ConflictLaws.{FirstConflict-once}
use Rattle.fuse_session.specs.SessionEnd.{Outcome}
use Rattle.fuse_session.specs.Refused.{NotBegun, OfOptions, OptionsWell, RefusedAs, is_auto_unmount}
use Rattle.fuse_session.specs.declared.error.SessionError.{SessionError}
use Rattle.fuse_session.specs.declared.error.SessionError.TheVariants.{Conflict, AutoUnmount, CloneFd, Memory}

-- the cause is one
RefusedAs-once : (config : Config) (e f : SessionError) → RefusedAs config e → RefusedAs config f → e ≡ f
RefusedAs-once config (Conflict i j) (Conflict k l) x y =
    let places = FirstConflict-once config.mount_options i j k l x y in
    ap (λ (first : ℕ). Conflict first j) places.0 ∙ ap (λ (second : ℕ). Conflict k second) places.1
RefusedAs-once config (Conflict i j) AutoUnmount x y = absurd (y.0 i j x.conflict)
RefusedAs-once config (Conflict i j) CloneFd x y = absurd (y.0 i j x.conflict)
RefusedAs-once config (Conflict i j) _ x y = absurd y
RefusedAs-once config AutoUnmount (Conflict k l) x y = absurd (x.0 k l y.conflict)
RefusedAs-once config AutoUnmount AutoUnmount x y = refl
RefusedAs-once config AutoUnmount CloneFd x y = absurd (y.1 x.1)
RefusedAs-once config AutoUnmount _ x y = absurd y
RefusedAs-once config CloneFd (Conflict k l) x y = absurd (x.0 k l y.conflict)
RefusedAs-once config CloneFd AutoUnmount x y = absurd (x.1 y.1)
RefusedAs-once config CloneFd CloneFd x y = refl
RefusedAs-once config CloneFd _ x y = absurd y
RefusedAs-once config _ f x y = absurd x

-- options with which nothing is amiss are not refused
pub OptionsWell-none : (config : Config) → OptionsWell config → (e : SessionError) → ¬ (RefusedAs config e)
OptionsWell-none config well (Conflict i j) x = well.no_conflict i j x.conflict
OptionsWell-none config well AutoUnmount x = well.no_unmount x.1
OptionsWell-none config well CloneFd x = well.no_clone x.2
OptionsWell-none config well _ x = x

-- where nothing is amiss with the options, it is for want of memory
pub Memory-not_begun : (config : Config) (e : SessionError) → OptionsWell config → NotBegun config e → e ≡ Memory
Memory-not_begun config e well (inl refused) = absurd (OptionsWell-none config well e refused)
Memory-not_begun config e well (inr memory) = memory.0

-- the outcome of a session that does not begin is an error of the options exactly where they are refused so
pub refused-not_begun : (config : Config) (f : SessionError) → NotBegun config f → (o : Outcome) → o ≡ Err f →
    (e : SessionError) → OfOptions e → (o ≡ Err e) ↔ RefusedAs config e
refused-not_begun config f (inl refused) o is e of = (
  λ h. let same : f ≡ e = cc (is, h) in subst (RefusedAs config) same refused,
  λ x. is ∙ ap (λ (g : SessionError). Err g) (RefusedAs-once config f e refused x),
)
refused-not_begun config f (inr memory) o is e of = (
  λ h. let same : e ≡ Memory = cc (is, h, memory.0) in absurd (subst OfOptions same of),
  λ x. absurd (OptionsWell-none config memory.1 e x),
)

-- where no option is listed, and one device serves, nothing is amiss
pub OptionsWell-none_listed : (config : Config) → config.mount_options ≡ [] → config.clone_fd ≡ false → OptionsWell config
OptionsWell-none_listed config none one = record {
  no_conflict = λ first second conflict.
      let at : slice_get config.mount_options first ≡ Some conflict.option = conflict.at_first in
      let empty : slice_get config.mount_options first ≡ None = ap (λ (os : List MountOption). slice_get os first) none in
      let no : ⊥ = cc (at, empty) in no;
  no_unmount = λ unmounts.
      let lists : list_any is_auto_unmount config.mount_options ≡ true = unmounts.0 in
      let empty : list_any is_auto_unmount config.mount_options ≡ false = ap (list_any is_auto_unmount) none in
      let no : ⊥ = cc (lists, empty) in no;
  no_clone = λ clones. let set : config.clone_fd ≡ true = clones.0 in let no : ⊥ = cc (set, one) in no;
}
