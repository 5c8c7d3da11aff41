use Rattle.std.proofs.Common.{◌≡◌, None, subst, [], ◌∷◌, ◌++◌, length, map, rules}
use Rattle.ti_binary.specs.Canonical.{renamed}
use Rattle.ti_caps.specs.Names.{first_name}
use Rattle.ti_compile.specs.Compiling.{files_under, refusal_of}
use Rattle.ti_compile.proofs.WrittenLaws.{put-is}
use Rattle.ti_compile.proofs.written.Written.put.Goals as goal

pub returns-clause-ok : goal.returns-clause-ok
returns-clause-ok c =
    let names = map (λ name. name.now) c.deref.result.now in
    let bytes = c.as_slice.result.now in
    let files : c.put_files.new.files ≡ c.args.self.now.files ++ files_under names bytes = search rules in
    let sizes : c.put_size.new.sizes ≡ c.args.self.now.sizes ++ (first_name c.args.entry.now.names, length bytes) ∷ [] = search rules in (
      subst (λ ns. refusal_of (renamed c.args.entry.now ns) ≡ None) c.names.ensures.names c.in_ok-bytes.ensures.good,
      put-is c.args.entry.now c.args.self.now c.put_files.new.files c.put_size.new.sizes names bytes
          (search rules) (search rules) files sizes,
    )
