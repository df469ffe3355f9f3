-- Files that the engine refuses.
use Rattle.std.proofs.Common.{ℕ, ◌≡◌, IfSome, None, Option, Some, ap, inl, inr, sym, subst, ◌∙◌, arith}
use Rattle.sqlite_disk.specs.declared.Disk as disk
use Rattle.sqlite_disk.specs.{Disk.MoreFaults, declared.Files.Files}
use Rattle.sqlite.specs.Files.{FailsToOpenFiles, HoldsDatabase, faults_left, faults_of, image_of}
use Rattle.sqlite.specs.{Recovery.Image, declared.error.Error.Error, declared.file.Leftover.Leftover}
use Rattle.store_api.specs.declared.fault.StorageFault.TheVariants as fault
use Rattle.desk_store.specs.Making.{IsOfStorage}
use Rattle.desk_files.specs.{LeftFiles.LeftFiles, Opening.fault_of_refusal}

-- what is so of what there is
pub if_there : {A : Type 0} (o : Option A) {P Q : A → Type 0} → IfSome o P → ((a : A) → P a → Q a) → IfSome o Q
if_there (Some a) p f = f a p
if_there None p f = tt

-- no fault is not one more fault
none_more : (old new : ℕ) → old ≡ 0 → new ≡ 0 → MoreFaults old new → ⊥
none_more old new was is more =
    let from_0 : MoreFaults 0 0 = subst (λ n. MoreFaults 0 n) is (subst (λ n. MoreFaults n new) was more) in
    absurd (omega (arith, from_0))

-- where they hold a database and the disk met no fault, memory was refused or the file is full
pub refuses_no_database : {D : Type 0} {g : disk.Ghosts D} (files : Files D) (left : Leftover D g) (image : Image) (e : Error) → image_of g files ≡ image
    → faults_of g files ≡ 0 → FailsToOpenFiles files left e → faults_left left ≡ 0 → (found : LeftFiles) → found.image ≡ image
    → IsOfStorage (fault_of_refusal e)
refuses_no_database files left image e seen none (inl memory) still found same = (fault.Memory, ap fault_of_refusal memory)
refuses_no_database files left image e seen none (inr (inl refused)) still found same =
    absurd (refused.1 (inl (found.trees, subst (λ i. HoldsDatabase i found.trees) (same ∙ sym seen) found.holds)))
refuses_no_database files left image e seen none (inr (inr (inl faulty))) still found same = absurd (none_more _ _ none still faulty.1)
refuses_no_database files left image e seen none (inr (inr (inr full))) still found same = (fault.Device, ap fault_of_refusal full.0)
